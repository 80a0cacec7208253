pub mod Days
pub mod Layered
pub mod Parts
pub mod Rows
pub mod Tables
