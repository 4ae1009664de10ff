-- A county in an arrangement, read through its source county by directed chains.
pub mod DirectedChains
pub mod ViewChains
pub mod ArrangedViews
pub mod ChainPlaces
