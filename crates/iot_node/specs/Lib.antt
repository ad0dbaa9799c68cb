pub mod Prelude
pub mod Disks
pub mod Keeping
pub mod Posts
pub mod Steps
pub mod Lines
