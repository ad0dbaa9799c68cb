pub mod PlayedLaws
pub mod EndingsLaws
pub mod ImagesLaws
pub mod CountingLaws
pub mod RunningLaws
pub mod PartsLaws
pub mod AuditsLaws
