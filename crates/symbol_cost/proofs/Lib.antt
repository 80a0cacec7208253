pub mod RowLaws
pub mod GridLaws
pub mod CountLaws
