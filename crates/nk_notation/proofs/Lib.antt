mod AddressRuns
pub mod Addresses
pub mod Cuts
pub mod Endings
pub mod Fields
pub mod Kept
pub mod Plain
pub mod ReadBack
pub mod SoFar
pub mod Sound
pub mod Succeeding
pub mod WholeWords
pub mod WrittenBytes
pub mod WrittenForms
pub mod WrittenHardware
pub mod WrittenHex
