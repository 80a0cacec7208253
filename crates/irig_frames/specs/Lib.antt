pub mod Edges
pub mod Reading
