-- Lemmas on lists of any elements.
pub mod OrderPlaces
