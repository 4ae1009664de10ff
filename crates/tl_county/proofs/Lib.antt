pub mod Lists
pub mod ByKey
pub mod Sameness
pub mod Rules
pub mod Packing
pub mod Common
