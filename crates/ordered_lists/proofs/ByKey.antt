pub mod Keys
pub mod KeyOrders
pub mod KeyedLists
pub mod KeysAscend
pub mod Numbers
pub mod NumberSets
pub mod SortedKeys
pub mod Marks
