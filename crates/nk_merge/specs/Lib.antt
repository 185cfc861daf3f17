pub mod Alike
pub mod Classes
pub mod DisjointCopies
pub mod Distinguish
pub mod Seen
pub mod Joined
pub mod SumsAfter
