-- Tables of types: what stands where, and what each call does.
pub mod Deletions
pub mod Calls
pub mod Clones
pub mod MadeCalls
pub mod DeadGroup
pub mod DeadTypes
pub mod NamedInGroup
pub mod NewGroup
pub mod NewType
pub mod Places
pub mod Search
pub mod TypeSet
