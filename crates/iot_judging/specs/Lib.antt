pub mod Entries
pub mod Told
pub mod Verdicts
pub mod Lists
pub mod Errands
pub mod Records
