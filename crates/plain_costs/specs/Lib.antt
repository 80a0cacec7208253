pub mod Grids
pub mod Agreement
pub mod Tenths
pub mod WalkCosts
pub mod Unions
pub mod Made
