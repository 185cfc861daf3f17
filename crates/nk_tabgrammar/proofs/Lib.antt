pub mod Answering
pub mod Completing
pub mod Following
pub mod Marks
pub mod Passing
pub mod Spelled
pub mod Telling
