pub mod Searches
pub mod Steps
pub mod Passing
pub mod Workers
pub mod Recorded
pub mod Teams
