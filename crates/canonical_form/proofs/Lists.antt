-- Lemmas on lists of any elements.
pub mod Counting
pub mod Grouping
pub mod Filtered
pub mod ListPlaces
pub mod SortedPlaces
