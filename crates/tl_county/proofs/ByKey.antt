pub mod MarkedNames
pub mod DistinctKeys
pub mod PolygonSets
