pub mod Plain
pub mod AllPlain
pub mod ByAct
pub mod Local
pub mod Single
