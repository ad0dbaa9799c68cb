pub mod Prelude
pub mod Allowed
pub mod Deciding
pub mod Disks
pub mod Holding
pub mod Looks
pub mod World
