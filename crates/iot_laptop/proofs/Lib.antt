mod Common
pub mod CallsLaws
pub mod CuttingLaws
pub mod FindingLaws
pub mod NodesLaws
pub mod RestartLaws
pub mod RunningLaws
pub mod SeatsLaws
