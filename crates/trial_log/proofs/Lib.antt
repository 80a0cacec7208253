pub mod CleanLaws
pub mod DutLaws
pub mod LevelLaws
pub mod LogLaws
pub mod SpacingLaws
pub mod SymbolLaws
pub mod TrialLaws
