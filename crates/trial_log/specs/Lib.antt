pub mod Clean
pub mod Trials
