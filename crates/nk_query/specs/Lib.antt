pub mod Answers
pub mod Asked
pub mod Queries
pub mod Questions
pub mod Sizes
pub mod Worked
