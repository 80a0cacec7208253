pub mod JudgeOrderLaws
pub mod FileLaws
pub mod JudgeDueLaws
pub mod JudgeReadLaws
pub mod CertifiedLaws
pub mod WrittenLaws
pub mod ExampleLaws
