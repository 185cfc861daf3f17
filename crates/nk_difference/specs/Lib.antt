pub mod Alone
pub mod Guarded
pub mod Difference
pub mod Sides
pub mod Named
