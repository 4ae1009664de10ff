pub mod PlacedKeys
pub mod ViewFacts
pub mod ViewProps
pub mod TableItems
pub mod ContentItems
pub mod NameItems
pub mod LandmarkItems
pub mod Views
