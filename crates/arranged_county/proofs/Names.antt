-- Names in their new order.
pub mod NameRanks
pub mod NameOrder
