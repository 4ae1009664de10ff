-- Polygons under their new numbers and in their new order.
pub mod PolygonOrder
