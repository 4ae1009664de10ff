pub mod LentBuffer
pub mod GoingOut
pub mod Taking
pub mod TakingLaws
pub mod Reports
