pub mod Timestamp
pub mod Fraction
pub mod Field
pub mod Reading
pub mod Amount
pub mod Scan
pub mod Print
pub mod Entries
