pub mod Decoding
pub mod Rules
pub mod Spelling
