pub mod Joins
pub mod Walks
