pub mod Carried
pub mod Updated
pub mod Drawn
