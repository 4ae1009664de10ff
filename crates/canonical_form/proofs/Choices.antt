-- Choices of the order and the directions of chains: by number, by moves at open places, and the one with the least text.
pub mod LesserDirections
pub mod Choosing
pub mod TidyChoices
pub mod AscendingArrangement
pub mod MovedChoice
pub mod FixedPlaces
pub mod ChosenArrangements
pub mod SameChoices
