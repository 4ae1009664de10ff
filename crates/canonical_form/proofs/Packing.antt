-- Counties packed into records.
pub mod TypeOrder
pub mod PackedGroups
pub mod PackedNumbers
pub mod PackedChains
pub mod PackedNamed
pub mod PackedLinked
pub mod PolygonBodies
pub mod PackedCounty
