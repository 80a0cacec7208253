pub mod Covering
pub mod Counting
pub mod TwoLeast
