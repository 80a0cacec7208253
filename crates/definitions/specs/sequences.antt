-- Sequences: the seconds that they walk through, which are legal, and their order.
pub mod Walks
pub mod Keys
pub mod Windows
