pub mod Checks
pub mod Kept
pub mod Places
