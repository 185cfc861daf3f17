pub mod Steps
pub mod Leading
