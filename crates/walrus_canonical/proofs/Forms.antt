-- Listings, and the least of them, which is found group by group.
pub mod Counting
pub mod Orders
pub mod Indices
pub mod Listings
pub mod Rounds
pub mod Canonical
pub mod Beginnings
pub mod NextGroups
pub mod Greedy
pub mod Writing
pub mod Choice
pub mod Extension
pub mod Existence
