pub mod Counts
pub mod Limit
pub mod Certificates
pub mod Instances
