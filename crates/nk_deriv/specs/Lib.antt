pub mod Part
pub mod Turns
