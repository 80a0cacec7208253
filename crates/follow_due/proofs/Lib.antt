pub mod OrderLaws
pub mod WindowLaws
pub mod ReportLaws
pub mod FollowDueLaws
pub mod FollowReadLaws
mod ExampleLaws
