mod Common
pub mod StepsLaws
pub mod FollowingLaws
pub mod DoesLaws
pub mod ExchangeLaws
pub mod FirstLaws
pub mod NamesLaws
pub mod TransactionsLaws
