pub mod Common
pub mod Tables
pub mod Repeats
