pub mod Comments
pub mod CompactLines
pub mod PlainLines
pub mod ReadableClasses
