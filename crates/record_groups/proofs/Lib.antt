pub mod Records
pub mod Texts
pub mod Common
