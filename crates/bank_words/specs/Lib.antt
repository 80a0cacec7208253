pub mod Gives
pub mod Own
pub mod Plain
pub mod Rest
pub mod Seen
