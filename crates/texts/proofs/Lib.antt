pub mod HeardLaws
pub mod ListingLaws
pub mod MinuteLaws
