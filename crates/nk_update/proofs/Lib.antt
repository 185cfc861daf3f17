pub mod Conditions
pub mod Lookup
pub mod Numbers
pub mod Tests
