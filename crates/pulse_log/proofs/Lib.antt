pub mod CountLaws
pub mod LineLaws
pub mod PlaceLaws
pub mod ReadLaws
pub mod TimeLaws
