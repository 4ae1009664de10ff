pub mod FirstFault
pub mod LinkFaults
pub mod LinkedCounty
