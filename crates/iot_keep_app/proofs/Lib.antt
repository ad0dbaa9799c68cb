pub mod DisksLaws
pub mod FramesLaws
pub mod ServingLaws
pub mod EndingsLaws
