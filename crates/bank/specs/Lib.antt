pub mod Ending
pub mod Certifying
pub mod Finding
pub mod Hearing
pub mod Loading
pub mod Order
pub mod Tasks
pub mod Examples
