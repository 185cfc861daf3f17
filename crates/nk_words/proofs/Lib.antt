pub mod Leaves
pub mod Limits
pub mod Numbers
pub mod Simple
