pub mod PassLaws
pub mod WalkLaws
pub mod CutLaws
pub mod JoinLaws
pub mod WishLaws
pub mod AwayLaws
