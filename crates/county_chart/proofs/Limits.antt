pub mod FitsPacked
pub mod FitsCounty
pub mod FieldsFit
pub mod FewChains
