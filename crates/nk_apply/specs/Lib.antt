pub mod Cofactors
pub mod MadeOf
pub mod Leaves
pub mod Spans
pub mod Seqs
pub mod Unions
pub mod Predicates
pub mod PacketSets
