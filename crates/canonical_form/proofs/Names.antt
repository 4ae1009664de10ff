-- Names in their new order.
pub mod UsesOrder
