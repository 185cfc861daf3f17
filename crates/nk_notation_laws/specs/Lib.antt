pub mod Laws
pub mod PlainLexemes
