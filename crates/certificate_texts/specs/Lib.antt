pub mod Sending
pub mod Layout
pub mod Fields
pub mod Places
pub mod Lines
pub mod Reading
