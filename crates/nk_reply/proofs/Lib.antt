pub mod Delivery
pub mod Meant
