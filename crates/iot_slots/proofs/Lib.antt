mod CellsLaws
mod DecodingLaws
pub mod DueLaws
pub mod LayoutsLaws
mod PartsLaws
mod SlotsLaws
mod StartLaws
pub mod WithinLaws
