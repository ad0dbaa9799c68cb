pub mod StatesLaws
pub mod StampsLaws
mod GuardingLaws
mod FollowingLaws
pub mod SpelledLaws
mod NumbersLaws
mod HeadLaws
mod PlaceLaws
pub mod SeesLaws
mod ClassLaws
mod CanLaws
mod ChangedLaws
mod SuitingLaws
mod TurnsLaws
mod OrderLaws
mod PartsLaws
mod VersionsLaws
mod ResumingLaws
mod BodiesLaws
pub mod StandingLaws
pub mod OneStateLaws
pub mod SyncedLaws
pub mod ContinuingLaws
pub mod BringingLaws
pub mod TrailsLaws
