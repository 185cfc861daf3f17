pub mod Flying
pub mod Following
pub mod Tracing
