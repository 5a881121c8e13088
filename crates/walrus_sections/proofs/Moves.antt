-- Moves keep the normal form, and lead down to it.
pub mod ByIndex
pub mod Exchange
pub mod Swapped
pub mod SwappedPlaces
pub mod Skip
pub mod Without
pub mod WithoutPlaces
pub mod WellNamed
pub mod Turned
pub mod Tidy
pub mod Descent
pub mod Sorting
pub mod Chains
