pub mod Disk
pub mod Calls
pub mod Opened
pub mod Seeing
pub mod Stored
pub mod Memory
pub mod Examples
