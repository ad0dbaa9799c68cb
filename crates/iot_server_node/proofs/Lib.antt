mod Common
mod PairsLaws
mod CountsLaws
mod DisksLaws
pub mod KeepersLaws
mod StartingLaws
pub mod ServersLaws
mod ServingLaws
pub mod BeginningLaws
pub mod BackupLaws
