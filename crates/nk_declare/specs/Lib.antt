pub mod Declarations
pub mod InMemory
pub mod Kept
pub mod Messages
