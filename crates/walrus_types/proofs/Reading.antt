-- Reading a section into a table.
pub mod NextGroup
pub mod NextIndex
pub mod Reader
pub mod ReaderCalls
pub mod Section
pub mod UsedUpId
