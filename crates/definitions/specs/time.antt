-- Time: the calendar, places in time, summer time, zones, and how a minute is written.
pub mod Calendar
pub mod Places
pub mod Summer
pub mod Seasons
pub mod Zones
pub mod Spelling
