-- Which types are marked, and what a table keeps whose other types are deleted.
pub mod Elements
pub mod Growing
pub mod Groups
pub mod Reaching
pub mod Steps
pub mod Listing
pub mod Deleting
pub mod Found
pub mod Keeping
pub mod Writing
