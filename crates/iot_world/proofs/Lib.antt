mod Common
pub mod ListLaws
pub mod PlacesLaws
pub mod BeginsLaws
pub mod WorldsLaws
pub mod DisksLaws
pub mod DeclaringLaws
pub mod HoldingLaws
pub mod DecidingLaws
pub mod AllowedLaws
pub mod LookingLaws
