pub mod NamesLaws
pub mod PathTextsLaws
pub mod PathsLaws
pub mod QuotesLaws
pub mod TablesLaws
pub mod TextsLaws
pub mod WordsLaws
