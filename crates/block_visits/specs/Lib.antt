pub mod Visits
pub mod Apart
pub mod Facts
