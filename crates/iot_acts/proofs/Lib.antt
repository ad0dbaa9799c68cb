pub mod TraceLaws
pub mod GuardLaws
