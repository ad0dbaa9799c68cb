pub mod Faults
pub mod Ties
pub mod Doing
pub mod Messages
pub mod Calls
