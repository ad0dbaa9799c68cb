pub mod Prelude
pub mod Disks
pub mod Keepers
pub mod Messages
pub mod Records
pub mod Servers
