-- Writing groups one after the other.
pub mod RenamedGroups
pub mod Numbering
pub mod ReadOrder
