pub mod Common
pub mod PlannedSets
pub mod MaskWords
pub mod UsualWords
