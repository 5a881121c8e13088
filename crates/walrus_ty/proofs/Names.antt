-- What types and definitions name, and how names are replaced.
pub mod Definitions
pub mod InLists
pub mod IdsInLists
pub mod Lookups
pub mod Renaming
