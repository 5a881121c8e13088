pub mod Verdicts
pub mod Uniqueness
