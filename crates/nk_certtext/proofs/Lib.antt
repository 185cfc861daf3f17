pub mod Printing
pub mod ReadingBack
pub mod RowsRead
pub mod DeclaredFirst
pub mod Taken
pub mod Predicates
pub mod PrintedCertificates
pub mod PrintedSets
