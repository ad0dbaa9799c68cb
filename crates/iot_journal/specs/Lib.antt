pub mod Decoding
pub mod Images
pub mod Journal
pub mod Start
