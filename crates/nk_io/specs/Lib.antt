pub mod Faults
pub mod Reading
pub mod Memory
pub mod Piece
