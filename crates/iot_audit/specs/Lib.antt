pub mod Audits
pub mod Differences
pub mod Scripts
