pub mod RuleOrders
pub mod RuleTests
pub mod TlidsInOrder
pub mod GatheredLists
pub mod TypedRecords
pub mod WithoutChain
pub mod LinkedTables
pub mod BuiltTables
