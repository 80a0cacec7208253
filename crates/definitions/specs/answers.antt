-- Answers: which sequence is the right one, and the blocks by which it is searched.
pub mod Answers
pub mod FirstTwo
pub mod Blocks
