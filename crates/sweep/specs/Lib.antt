pub mod Tasks
pub mod Turns
pub mod Keeping
pub mod Certifying
