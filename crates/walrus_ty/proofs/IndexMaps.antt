-- The indices that ids are given.
pub mod NextIndex
