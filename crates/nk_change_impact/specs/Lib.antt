pub mod Impact
pub mod Ends
pub mod Succeeding
