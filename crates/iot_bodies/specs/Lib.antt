pub mod Decoding
pub mod Laws
pub mod Rules
pub mod Spelling
