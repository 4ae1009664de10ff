-- Names in their new order.
pub mod ContentFirst
pub mod NamePlaces
