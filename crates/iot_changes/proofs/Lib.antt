pub mod ChangesLaws
pub mod ResolutionsLaws
