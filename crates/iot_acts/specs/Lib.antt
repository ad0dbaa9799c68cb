pub mod Traces
pub mod Paths
pub mod Guards
pub mod Turns
pub mod Fitting
