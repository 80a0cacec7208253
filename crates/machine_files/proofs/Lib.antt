mod Keeping
mod Appending
mod Telling
mod MemoryLaws
mod DiskLaws
pub mod SeeingLaws
