pub mod CanonicalModules
pub mod Meanings
pub mod AlikeModules
pub mod Steps
pub mod Hazards
pub mod StrictErrors
