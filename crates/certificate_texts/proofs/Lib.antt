pub mod SentLaws
pub mod LineLaws
pub mod FieldLaws
pub mod ReadStepLaws
pub mod HeadLaws
pub mod ReaderLaws
pub mod StandLaws
