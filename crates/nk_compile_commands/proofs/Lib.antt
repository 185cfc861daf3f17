pub mod Climbs
pub mod Matched
pub mod Printing
pub mod Readable
pub mod ResultBuckets
pub mod SoundRows
pub mod TableGroups
