-- Lemmas on lists of any elements.
pub mod ItemByItem
pub mod Classes
