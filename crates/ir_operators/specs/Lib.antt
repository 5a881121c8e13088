pub mod Values
pub mod Atomics
pub mod Loads
pub mod Stores
