pub mod ContinuingLaws
pub mod CountsLaws
pub mod EndingLaws
pub mod MarksLaws
