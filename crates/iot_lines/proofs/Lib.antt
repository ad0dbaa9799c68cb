pub mod FrontsLaws
pub mod LinesLaws
pub mod WordsLaws
