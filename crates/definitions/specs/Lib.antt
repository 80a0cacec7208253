pub mod time
pub mod codes
pub mod sequences
pub mod heard
pub mod answers
pub mod examples
