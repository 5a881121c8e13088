pub mod FieldMaps
pub mod Premises
pub mod Renaming
pub mod Walks
pub mod Unfolding
pub mod Counting
pub mod Steps
