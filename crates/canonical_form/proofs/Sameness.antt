-- Counties that a renaming carries onto one another.
pub mod CarriedCounty
