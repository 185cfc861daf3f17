pub mod Buckets
pub mod Chosen
pub mod Example
pub mod RowsOf
pub mod RuleTree
pub mod Ways
