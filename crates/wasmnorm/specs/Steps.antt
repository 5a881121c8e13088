-- What private functions promise one another on the way to a public clause. No public clause cites
-- this module: who wants to know what the program promises can pass it over.
pub mod Warnings
pub mod Failures
