pub mod FittingLaws
pub mod WeaveLaws
pub mod JoiningLaws
pub mod FrontLaws
pub mod OutcomeLaws
