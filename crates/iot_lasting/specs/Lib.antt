pub mod Lasting
pub mod Acknowledged
pub mod Ledger
pub mod Sayings
pub mod Telling
pub mod Promoting
