-- Numbers by first appearance: the keys that were seen, and their places.
pub mod SeenPlaces
pub mod SeenLists
pub mod PlacedKeys
