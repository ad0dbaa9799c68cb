pub mod Decoding
pub mod Laws
pub mod Respelling
pub mod Spelling
pub mod Values
pub mod Versions
