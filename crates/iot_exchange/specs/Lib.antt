pub mod Words
pub mod Scripts
pub mod Pairs
pub mod Queues
pub mod Saying
