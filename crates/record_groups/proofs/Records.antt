-- The records of a county in groups, as they are passed to a visitor.
pub mod Pieces
pub mod Grouped
pub mod Selected
pub mod PackedGroups
pub mod EntryPlaces
pub mod RecordPlaces
pub mod OneAfterAnother
pub mod GivenGroups
pub mod GroupRests
pub mod SameGroups
