pub mod BlockTypes
pub mod Locals
pub mod LocalParts
pub mod LocalLends
pub mod Locations
pub mod Reachability
pub mod Sequence
