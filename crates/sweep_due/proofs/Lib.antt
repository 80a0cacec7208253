mod StandingLaws
mod SweptCostLaws
pub mod OffsetLaws
pub mod KeysLaws
mod AnotherLaws
pub mod SearchLaws
pub mod AnswerLaws
pub mod OrderLaws
pub mod SweepDueLaws
pub mod SweepReadLaws
pub mod CertificatesLaws
mod JudgeLaws
mod ExampleLaws
