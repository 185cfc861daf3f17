pub mod Text
pub mod Rows
pub mod ReadBack
pub mod Printed
pub mod InMemory
pub mod Progress
pub mod Whole
