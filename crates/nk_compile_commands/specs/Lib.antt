pub mod Compiling
pub mod Handed
pub mod Messages
pub mod TextTables
pub mod Updating
pub mod RowsPut
