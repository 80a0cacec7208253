pub mod Totals
pub mod LeastTwo
pub mod Gathered
pub mod Soundness
pub mod Steps
pub mod Looking
pub mod Closing
pub mod Counted
