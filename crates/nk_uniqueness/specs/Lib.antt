pub mod Packets
pub mod Queried
pub mod Texts
pub mod Told
pub mod Worked
