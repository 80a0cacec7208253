pub mod Receivers
pub mod Counting
pub mod Stations
