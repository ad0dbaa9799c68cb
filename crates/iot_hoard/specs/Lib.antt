pub mod Choosing
pub mod Picking
pub mod Sizes
