pub mod Alone
pub mod Below
pub mod Calls
pub mod Laptops
pub mod Messages
pub mod Seats
