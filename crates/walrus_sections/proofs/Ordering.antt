-- The order in which groups are written.
pub mod RunStarts
pub mod NeighboursInOrder
pub mod FreeNames
pub mod FilteredPlaces
pub mod SortedPlaces
