pub mod FilesLaws
pub mod ResolvedLaws
