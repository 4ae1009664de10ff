-- Limits that counties keep.
pub mod CarriedLimits
