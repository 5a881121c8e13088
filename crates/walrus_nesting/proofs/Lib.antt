pub mod Lists
pub mod Nested
pub mod Pushed
pub mod Ranks
