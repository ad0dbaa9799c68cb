pub mod Cells
pub mod Decoding
pub mod Due
pub mod Layouts
pub mod Looked
pub mod Parts
pub mod Slots
pub mod Start
