pub mod TaskLaws
pub mod StepLaws
pub mod ReportLaws
pub mod FollowedLaws
pub mod FoundLaws
pub mod RefusalLaws
pub mod ExactLaws
pub mod WriteLaws
