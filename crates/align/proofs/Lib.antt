pub mod BankLaws
pub mod EdgeLaws
pub mod FitLaws
pub mod TallyLaws
pub mod TurnLaws
