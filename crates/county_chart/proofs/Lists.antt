pub mod OfNumber
pub mod LinkPlaces
pub mod Compared
pub mod TableEntries
pub mod StoredLandmarks
pub mod StoredParts
