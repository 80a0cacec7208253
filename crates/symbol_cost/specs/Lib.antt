pub mod Grid
pub mod Rows
