-- What private functions promise one another.
pub mod Sections
pub mod Tables
pub mod Heads
pub mod Stacks
pub mod Scans
pub mod OneByteForms
pub mod Renaming
pub mod Contents
pub mod Changes
pub mod RenamedModules
pub mod NameSections
pub mod Customs
pub mod Lengths
pub mod Outdated
