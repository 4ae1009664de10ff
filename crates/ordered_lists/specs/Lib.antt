pub mod Orders
pub mod Keyed
pub mod PutInOrder
pub mod Places
pub mod Entries
pub mod Pairs
pub mod Marks
pub mod NumberSets
