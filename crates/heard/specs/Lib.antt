pub mod Asking
pub mod Kept
pub mod Seen
pub mod Told
