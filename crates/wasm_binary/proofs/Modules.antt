-- How the sections of a module are read.
pub mod Orders
pub mod Readings
pub mod Passed
pub mod Framing
pub mod Faulting
pub mod Uniqueness
pub mod TypeContents
pub mod FirstSections
pub mod BadTypes
pub mod Around
pub mod CustomNames
pub mod NoFurther
