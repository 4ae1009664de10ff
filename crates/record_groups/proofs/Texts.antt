-- Comparing the texts of two arrangements, type by type.
pub mod NumberTexts
pub mod PartOrder
pub mod OpenPlaces
pub mod RecordExact
pub mod TiedOnes
pub mod TypeOnes
pub mod RecordTexts
pub mod TypeOrders
pub mod GroupOrders
