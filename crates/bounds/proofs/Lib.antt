pub mod BlockLists
pub mod RankLaws
pub mod OneRanking
