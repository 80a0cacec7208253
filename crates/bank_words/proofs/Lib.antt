pub mod CommandLaws
pub mod NumberLaws
pub mod OrderLaws
pub mod PairLaws
pub mod RestLaws
