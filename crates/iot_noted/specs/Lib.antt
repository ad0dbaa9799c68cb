pub mod Events
pub mod Hosts
pub mod Images
pub mod Noted
