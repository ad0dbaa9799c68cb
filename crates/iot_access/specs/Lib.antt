pub mod Sources
pub mod Entries
pub mod Origins
pub mod BaseReads
pub mod Access
pub mod Asked
