pub mod Given
pub mod Stays
pub mod Loops
pub mod Ends
pub mod Held
pub mod Arms
pub mod Cuts
pub mod Steps
mod ReadLexemes
pub mod Standing
pub mod Names
mod Open
pub mod Digits
pub mod Cutting
pub mod Named
pub mod Joining
