mod FrontLaws
pub mod OneLaws
mod ReadingLaws
mod RespellingLaws
mod ServersLaws
