pub mod Mask
pub mod Number
pub mod Waveform
pub mod Table
pub mod Limits
