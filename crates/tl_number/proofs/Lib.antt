pub mod Lists
pub mod Names
pub mod Choices
pub mod Landmarks
pub mod Texts
pub mod Ties
pub mod Common
