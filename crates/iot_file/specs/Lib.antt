pub mod FileDisk
pub mod Own
