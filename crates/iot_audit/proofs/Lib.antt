pub mod AuditedLaws
pub mod DifferenceLaws
pub mod LinesLaws
pub mod ListsLaws
pub mod ScriptsLaws
pub mod WalksLaws
