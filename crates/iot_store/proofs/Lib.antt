mod BodiesLaws
mod CommitsLaws
mod ImagesLaws
mod LinesLaws
pub mod NotingLaws
pub mod NumbersLaws
pub mod PartsLaws
pub mod RecordsLaws
pub mod RestartLaws
mod RowsLaws
pub mod StandingLaws
pub mod StatesLaws
