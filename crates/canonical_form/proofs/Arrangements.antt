-- The county of an arrangement, its packing and its limits.
pub mod Repacked
pub mod RepackedPolygons
pub mod Placed
pub mod Carrying
pub mod ArrangedCounties
pub mod ArrangedPacking
pub mod SmallNumbers
pub mod ArrangedNumbers
pub mod PlacesFit
pub mod PolygonNumbers
