pub mod Orders
pub mod Reversed
pub mod InPlace
