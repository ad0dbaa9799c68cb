pub mod Kept
pub mod Scripts
pub mod States
