pub mod Choices
pub mod Halves
pub mod Partition
pub mod Kinds
pub mod Again
