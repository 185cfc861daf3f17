pub mod Plans
pub mod Steps
pub mod Tags
pub mod Worked
