pub mod CutLaws
pub mod WaitLaws
pub mod LeadLaws
pub mod WriteLaws
pub mod StepLaws
