pub mod Rounds
pub mod Sides
