pub mod Made
pub mod TableLaws
