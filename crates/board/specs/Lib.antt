pub mod Tasks
pub mod Publishing
pub mod Asking
pub mod Finding
