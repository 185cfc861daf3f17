pub mod Crossing
pub mod SameBuckets
pub mod Tops
