pub mod Frames
pub mod Status
pub mod Serving
pub mod Endings
