pub mod Emitting
pub mod Finding
pub mod OneTrace
pub mod Orders
pub mod Ports
pub mod Sizes
pub mod Steps
pub mod Trails
