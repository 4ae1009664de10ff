pub mod Reported
pub mod Answers
