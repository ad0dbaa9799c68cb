pub mod DamageLaws
pub mod ImagesLaws
pub mod NotingLaws
pub mod OneLaws
mod PairLaws
pub mod PartsLaws
pub mod ReadingLaws
pub mod ReplayLaws
pub mod RoomLaws
pub mod StandingLaws
