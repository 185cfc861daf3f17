pub mod Silent
pub mod Steps
pub mod Legs
pub mod InTurn
pub mod Collected
pub mod Rests
pub mod Loops
