pub mod Turns
pub mod Generated
