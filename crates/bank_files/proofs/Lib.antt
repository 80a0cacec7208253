pub mod Telling
pub mod Chaining
mod Pieces
pub mod Counting
