pub mod Bodies
pub mod Disk
pub mod Failures
pub mod Faults
pub mod Unsynced
pub mod Memory
