-- Equal types: their laws, and what can be decided of them.
pub mod Decisions
pub mod Definitions
pub mod Members
pub mod EqualTypes
pub mod DecidedTypes
pub mod Written
pub mod EqualRoots
