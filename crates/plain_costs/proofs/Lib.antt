pub mod AgreementLaws
pub mod GridLaws
pub mod BitLaws
pub mod WalkLaws
pub mod ValueLaws
pub mod UnionLaws
