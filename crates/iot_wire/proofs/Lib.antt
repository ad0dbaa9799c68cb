pub mod CommitsLaws
pub mod MessagesLaws
pub mod SpellingLaws
