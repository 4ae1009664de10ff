pub mod Texts
pub mod SpeltLine
