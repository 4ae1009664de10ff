pub mod Groups
pub mod CountyGroups
pub mod RecordOrder
pub mod TypeOneOrder
pub mod SharedGroups
