pub mod Lacks
pub mod Room
pub mod Rounds
pub mod Leads
pub mod Blocks
