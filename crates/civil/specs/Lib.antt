pub mod Days
pub mod Dated
pub mod Seasons
pub mod Clock
