pub mod CheckOrders
pub mod CheckTexts
pub mod CheckRules
pub mod CheckPlans
