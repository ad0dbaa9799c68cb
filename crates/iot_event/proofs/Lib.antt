pub mod ClosingLaws
mod NumbersLaws
mod FormsLaws
mod ProfilesLaws
pub mod ScriptsLaws
pub mod DeclarationsLaws
pub mod EventsLaws
