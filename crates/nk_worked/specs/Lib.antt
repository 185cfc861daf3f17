pub mod TheirTable
pub mod TwoSwitches
pub mod WorkedRows
