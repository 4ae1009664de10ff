-- Two arranged counties are equal if a renaming between them keeps each TLID and turns no chain.
pub mod SameNumbers
pub mod SameKeys
pub mod SameNames
pub mod SameLandmarks
pub mod Rigid
pub mod Uniqueness
