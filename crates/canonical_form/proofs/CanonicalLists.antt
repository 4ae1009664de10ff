-- Tidy, canonical and strict lists: each accepted list has a canonical one, and all of one map have the same text.
pub mod Accepted
pub mod Ascending
pub mod EachTidy
pub mod TidyLists
pub mod OneChoice
pub mod SameShapes
pub mod StrictLists
pub mod CanonLists
