pub mod Walking
pub mod Encoding
pub mod Differing
