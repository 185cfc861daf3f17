pub mod CommentLines
pub mod Compacting
pub mod TextTables
