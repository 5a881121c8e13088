pub mod Equality
pub mod Forms
pub mod Needs
pub mod Reading
pub mod Waits
pub mod Output
