pub mod Shelving
pub mod Looking
pub mod Ruling
pub mod Staying
pub mod Listing
