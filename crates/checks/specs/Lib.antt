pub mod Tasks
pub mod Writable
