pub mod Decoders
pub mod Decoding
pub mod Laws
pub mod Listed
pub mod Loose
pub mod Outcomes
pub mod Rules
pub mod Seen
