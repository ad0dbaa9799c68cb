pub mod AheadLaws
pub mod BasesLaws
pub mod DigitsLaws
pub mod FaultsLaws
pub mod OutcomesLaws
