pub mod Common
pub mod PointRanks
pub mod PlacedOrder
pub mod SideKeys
pub mod FoundChoices
