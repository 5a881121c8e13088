-- Lemmas on the nesting check.
pub mod Exact
pub mod SearchSteps
