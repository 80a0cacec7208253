pub mod Ranking
pub mod Rows
