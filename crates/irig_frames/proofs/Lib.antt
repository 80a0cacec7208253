pub mod TimeLaws
pub mod EdgeLaws
pub mod TextLaws
pub mod ToldLaws
pub mod ReadLaws
