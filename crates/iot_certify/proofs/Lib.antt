pub mod ReadsLaws
pub mod WalkLaws
pub mod AccessLaws
mod SilentLaws
mod AsksLaws
mod BasesLaws
pub mod LongestLaws
