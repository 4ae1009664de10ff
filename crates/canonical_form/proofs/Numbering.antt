-- Numbers by first appearance: the keys that were seen, and their places.
pub mod Growth
pub mod FoundPlaces
pub mod FirstSeen
pub mod SeenKeys
pub mod NewNumbers
