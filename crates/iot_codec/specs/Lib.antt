pub mod Ahead
pub mod Laws
pub mod Outcomes
pub mod Places
pub mod Spelling
