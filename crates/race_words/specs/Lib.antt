pub mod Keys
pub mod Views
pub mod Events
pub mod Sound
pub mod Law
pub mod Held
pub mod Shared
