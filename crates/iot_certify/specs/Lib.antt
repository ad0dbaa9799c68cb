pub mod Verdicts
pub mod Silent
pub mod Asked
