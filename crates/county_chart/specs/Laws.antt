pub mod KeyOrders
pub mod PackedTypes
pub mod TypeCounts
pub mod MaskedCounties
pub mod MaskedLimits
