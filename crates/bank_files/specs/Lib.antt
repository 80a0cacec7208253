pub mod Told
pub mod Fault
pub mod Seen
pub mod Stored
pub mod Memory
pub mod Sure
