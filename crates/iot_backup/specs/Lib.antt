pub mod Faults
pub mod Following
pub mod Pairs
pub mod Parts
pub mod Start
pub mod Twin
