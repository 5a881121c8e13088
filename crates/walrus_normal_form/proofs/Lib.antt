pub mod Reading
pub mod Ordering
pub mod Writing
pub mod Clones
