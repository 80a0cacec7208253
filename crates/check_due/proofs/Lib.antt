pub mod CheckOrderLaws
pub mod CheckDueLaws
pub mod CheckReadLaws
pub mod DoneLaws
