pub mod Waiting
pub mod Spans
pub mod Walking
pub mod Written
pub mod Appending
