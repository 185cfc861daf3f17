pub mod ClassesAtSwitches
pub mod Compacted
pub mod Mergeable
pub mod MergedTable
pub mod MetPackets
pub mod Told
