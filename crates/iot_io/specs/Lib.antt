pub mod ReadAll
pub mod WriteAll
pub mod MemSource
pub mod MemSink
pub mod Standard
