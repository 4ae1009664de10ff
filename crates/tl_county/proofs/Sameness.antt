pub mod SameChains
pub mod SameCounty
pub mod SameRules
