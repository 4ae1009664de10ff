pub mod Equivalence
pub mod Carried
