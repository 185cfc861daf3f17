pub mod Answer
pub mod Drawing
pub mod Way
