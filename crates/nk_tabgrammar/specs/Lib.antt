pub mod Answer
pub mod Machine
pub mod Spelling
pub mod States
pub mod Telling
pub mod Terminal
