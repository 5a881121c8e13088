-- Writing a table as a section.
pub mod WrittenCount
pub mod SortedGroups
pub mod OrderFromSort
pub mod WriteLoop
pub mod WrittenEntries
pub mod EmittedTables
pub mod WrittenAgain
pub mod WrittenFew
pub mod WellNamed
