-- A county in an arrangement, read through its source county by directed chains.
pub mod ViewNumbers
pub mod ViewTables
pub mod RenamingPairs
pub mod ArrangedPairs
pub mod ArrangedTables
