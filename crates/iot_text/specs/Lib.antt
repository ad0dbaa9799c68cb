pub mod NameArrays
pub mod Names
pub mod Paths
pub mod Quotes
pub mod Shared
pub mod Texts
