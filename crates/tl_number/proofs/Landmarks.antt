-- Landmarks and their links in their new order.
pub mod BodiesFirst
