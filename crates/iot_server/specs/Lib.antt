pub mod Copies
pub mod Faults
pub mod Replies
pub mod Servers
pub mod Traffic
