pub mod UndoLaws
pub mod FittingLaws
