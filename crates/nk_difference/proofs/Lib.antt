pub mod Trees
pub mod Deciding
pub mod BothSides
pub mod Outside
pub mod Exploring
