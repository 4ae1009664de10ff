pub mod Words
pub mod Walking
pub mod Entering
pub mod Flags
pub mod OverOneSet
pub mod Comparing
pub mod Planned
