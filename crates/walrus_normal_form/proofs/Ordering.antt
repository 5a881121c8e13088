-- The order in which groups are written.
pub mod PendingGroups
pub mod SlotGroups
pub mod OrderFromSort
pub mod FirstRanks
pub mod SortKeys
pub mod KeyNumbers
