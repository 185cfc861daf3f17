pub mod Texts
pub mod Endings
pub mod Standing
mod Succeeding
