pub mod Certified
mod CertifiedTokens
