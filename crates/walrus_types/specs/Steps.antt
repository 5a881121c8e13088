-- What private functions promise one another on the way to a public clause. No public clause and no
-- law cites these modules:
-- who wants to know what the crate promises can pass them over.
pub mod TableIndex
pub mod TableReads
pub mod FreeGroups
pub mod PendingGroups
pub mod WrittenGroups
pub mod SortKeys
pub mod ReadSlots
pub mod Finding
