mod NumbersLaws
mod Uses
mod TurnsLaws
mod WalksLaws
mod MatchesLaws
mod JobsLaws
mod ReadLaws
