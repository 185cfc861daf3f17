pub mod Worked
pub mod Judged
pub mod Answers
