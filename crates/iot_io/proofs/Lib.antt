pub mod ReadAllLaws
pub mod WriteAllLaws
pub mod MemSinkLaws
