pub mod PointOrder
pub mod Chain
pub mod Turned
pub mod TurnLaws
