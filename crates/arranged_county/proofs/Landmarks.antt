-- Landmarks and their links in their new order.
pub mod LinkSlices
pub mod LandmarkLinks
pub mod LandsByPlace
pub mod LandmarkOrder
