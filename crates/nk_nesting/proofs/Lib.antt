pub mod Beyond
pub mod Counting
pub mod Following
pub mod Limits
pub mod Nested
pub mod CertifiedFollowing
pub mod CertifiedLimits
