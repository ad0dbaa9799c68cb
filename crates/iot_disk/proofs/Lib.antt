mod BodiesLaws
pub mod DiskLaws
mod MarksLaws
mod MemoryLaws
mod UnsyncedLaws
