pub mod Messages
pub mod Virtualizing
