pub mod Kept
pub mod OfWorkers
