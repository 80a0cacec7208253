pub mod Line
pub mod Place
pub mod Reading
