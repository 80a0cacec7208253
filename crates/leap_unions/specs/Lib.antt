pub mod Pieces
pub mod Scope
pub mod Kept
pub mod Walks
pub mod Tapes
