pub mod Decoding
pub mod Messages
pub mod Rules
pub mod Spelling
pub mod Meanings
pub mod Submissions
pub mod Lent
