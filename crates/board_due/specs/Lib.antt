pub mod Queries
pub mod BoardTexts
pub mod BoardAnswers
pub mod BoardOrders
pub mod BoardDues
pub mod BoardRules
pub mod BoardPlans
pub mod Examples
