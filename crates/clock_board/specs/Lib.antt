pub mod Shelves
pub mod Shown
pub mod Views
pub mod Rule
pub mod Seats
pub mod Telling
