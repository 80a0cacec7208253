pub mod Written
pub mod JudgeOrders
pub mod JudgeTexts
pub mod JudgeDues
pub mod JudgePlans
