pub mod TakingLaws
pub mod ChoiceLaws
pub mod BelowLaws
pub mod OrderLaws
pub mod SizeLaws
pub mod AboveLaws
pub mod PickedLaws
