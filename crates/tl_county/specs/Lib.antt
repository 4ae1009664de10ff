pub mod PolygonSets
pub mod Marks
pub mod RepeatedKeys
pub mod RuleOrder
pub mod OrderedTables
pub mod Building
pub mod Repacked
