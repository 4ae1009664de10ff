pub mod Numbering
pub mod Lists
pub mod Names
pub mod Views
pub mod Landmarks
pub mod Polygons
pub mod Results
pub mod Common
