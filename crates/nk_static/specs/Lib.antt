pub mod Links
pub mod StaticFaults
pub mod LeafTests
