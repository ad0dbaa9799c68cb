pub mod ClientLaws
pub mod QueuedLaws
mod RunsLaws
pub mod ServerLaws
pub mod TreesLaws
