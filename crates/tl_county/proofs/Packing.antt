pub mod Repacking
pub mod Splitting
