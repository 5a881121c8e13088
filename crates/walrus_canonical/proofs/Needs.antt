-- The indices that roots need are marked.
pub mod DecidedNeeds
pub mod CheckedGroups
pub mod Marking
pub mod TurnsBack
pub mod NeedsMarked
