-- Choices of the order and the directions of chains: by number, by moves at open places, and the one with the least text.
pub mod LeastNumbers
pub mod ChoiceSteps
pub mod AlikeRanges
pub mod LeastBelow
pub mod MovedParts
pub mod LeastOnes
pub mod PlacesApart
pub mod DigitsApart
pub mod StillOpen
