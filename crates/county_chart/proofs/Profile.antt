-- The profile: whether a county is in it, and how many choices it leaves.
pub mod CountedChoices
pub mod Factorials
pub mod Places
pub mod ProfileFaults
pub mod SameChoices
pub mod SameProfile
pub mod ShapePoints
pub mod ShapesOfCounty
