pub mod Counters
pub mod Edges
pub mod Receivers
