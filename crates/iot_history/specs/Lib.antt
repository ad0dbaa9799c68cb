pub mod Status
pub mod Past
pub mod Input
pub mod Continuing
pub mod Ending
