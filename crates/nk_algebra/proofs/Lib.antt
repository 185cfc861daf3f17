pub mod Acts
pub mod Chosen
pub mod Cuts
pub mod Halved
pub mod Splits
pub mod Reaches
pub mod LeavesAtOnce
