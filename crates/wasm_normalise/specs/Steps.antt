-- What private functions promise one another on the way to a public clause. No public clause cites
-- this module: who wants to know what the crate promises can pass it over.
pub mod Errors
pub mod CanonicalModules
pub mod CanonicalTypes
