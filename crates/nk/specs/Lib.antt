pub mod Answer
pub mod Ends
pub mod Generating
pub mod JobSteps
pub mod Succeeding
