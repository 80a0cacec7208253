pub mod TaskLaws
pub mod PieceLaws
pub mod CostLaws
pub mod ToldLaws
pub mod OrderLaws
pub mod FoundLaws
pub mod RefusalLaws
pub mod ExactLaws
