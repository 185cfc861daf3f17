pub mod Gathers
pub mod Insides
pub mod Kept
pub mod Members
pub mod Orders
pub mod Places
