pub mod PlaceSteps
pub mod NumberTexts
pub mod PointTexts
pub mod Masks
pub mod RowLaws
pub mod Common
