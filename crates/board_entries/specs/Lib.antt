pub mod Stays
pub mod Board
pub mod Plain
pub mod Examples
