pub mod QueryLaws
pub mod OutcomeLaws
pub mod CountLaws
pub mod BoardOrderLaws
pub mod BoardDueLaws
pub mod BoardReadLaws
mod ExampleLaws
