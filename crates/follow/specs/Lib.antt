pub mod Tasks
pub mod Finding
