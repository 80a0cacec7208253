pub mod Checked
pub mod Values
pub mod Places
pub mod Configuration
pub mod InRange
pub mod Examples
