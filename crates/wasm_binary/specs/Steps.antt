-- What private functions promise one another on the way to a public clause. No public clause and no
-- law cites these modules: who wants to know what the crate promises can pass them over.
pub mod Reading
pub mod Refusals
pub mod Framing
pub mod CustomSections
pub mod Writing
