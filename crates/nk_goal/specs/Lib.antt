pub mod Entries
pub mod Goals
