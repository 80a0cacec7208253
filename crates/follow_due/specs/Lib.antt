pub mod Windows
pub mod FollowOrders
pub mod FollowDues
pub mod FollowRules
pub mod FollowPlans
pub mod Examples
