pub mod Asking
pub mod CertifiedText
pub mod Checking
pub mod Comparing
pub mod Judging
pub mod Messages
