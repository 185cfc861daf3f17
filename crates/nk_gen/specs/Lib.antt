pub mod Draws
pub mod Network
pub mod Text
pub mod Flags
