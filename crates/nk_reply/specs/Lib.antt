pub mod Answer
pub mod Meant
pub mod Messages
pub mod Outcome
pub mod Reply
pub mod Sent
pub mod Status
pub mod Use
