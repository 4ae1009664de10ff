pub mod TextLengths
pub mod Finished
