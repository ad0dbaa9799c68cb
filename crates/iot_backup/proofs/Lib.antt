mod BehindLaws
pub mod PairsLaws
pub mod StartLaws
