pub mod KeptLaws
pub mod LeapLaws
pub mod NominalLaws
pub mod PieceLaws
pub mod RegularLaws
pub mod SentLaws
pub mod WalkLaws
