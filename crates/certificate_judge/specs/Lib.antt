pub mod Marks
pub mod Judging
pub mod Headings
pub mod Outcomes
pub mod Checking
pub mod Kept
pub mod WholeTexts
