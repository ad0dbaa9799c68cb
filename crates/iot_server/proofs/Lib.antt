pub mod AloneLaws
mod CopiesLaws
mod ChangesLaws
mod FaultsLaws
mod LeavingLaws
mod RepliesLaws
mod StandingLaws
