-- What is written for the groups of a table that was read is the normal form.
pub mod ByIndex
pub mod Made
pub mod Groups
pub mod WrittenMembers
pub mod Emits
pub mod SameMembers
pub mod IndexOfId
pub mod PairsOfGroups
pub mod ReadMembers
