pub mod Listed
mod Adding
pub mod Below
