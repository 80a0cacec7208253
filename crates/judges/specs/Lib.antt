pub mod Tasks
pub mod Judging
pub mod Seen
