pub mod RepliesLaws
pub mod WholeLaws
mod ReadPlaceLaws
mod PlaceLaws
mod LivesLaws
pub mod TiesLaws
pub mod StepsLaws
pub mod DoingLaws
mod EndLaws
mod ClassesLaws
mod SeatedLaws
pub mod SpelledLaws
mod PauseLaws
mod ActLaws
mod AgainLaws
mod GoingLaws
mod CertifyLaws
mod CutLaws
mod BegunLaws
mod FoundLaws
mod LocalLaws
pub mod TrailsLaws
