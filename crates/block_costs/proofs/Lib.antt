pub mod KeptLaws
pub mod SumLaws
pub mod TotalLaws
pub mod UnionLaws
pub mod HourLaws
