pub mod FaultLaws
pub mod CostLaws
pub mod EachLaws
pub mod KindLaws
pub mod OutcomeLaws
pub mod SeenLaws
pub mod RangeLaws
