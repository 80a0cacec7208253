mod Keeping
mod Kept
mod Appended
mod Windows
