pub mod Spelling
pub mod Orders
pub mod Equality
pub mod Basics
pub mod Names
pub mod Texts
pub mod Hashes
pub mod IndexMaps
