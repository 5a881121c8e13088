-- What `Hash` is fed is read back.
pub mod Parts
pub mod Values
pub mod Ids
pub mod Indices
