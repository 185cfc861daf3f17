pub mod Labels
pub mod Wrong
pub mod Walked
