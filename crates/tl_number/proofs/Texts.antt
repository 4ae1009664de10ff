-- Comparing the texts of two arrangements, type by type.
pub mod SamePoints
