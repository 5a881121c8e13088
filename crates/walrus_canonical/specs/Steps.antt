-- What private functions promise one another on the way to a public clause. No public clause and no
-- law cites these modules: who wants to know what the crate promises can pass them over.
pub mod Failures
pub mod Marks
pub mod Renamings
pub mod Shown
pub mod Waits
pub mod GroupKeys
pub mod Queues
pub mod WrittenIndices
pub mod KnownClasses
pub mod Classes
pub mod Writing
