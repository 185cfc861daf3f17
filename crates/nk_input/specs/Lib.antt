pub mod Declarable
pub mod Pieces
pub mod ProgramText
pub mod ProgramTokens
pub mod ReadText
