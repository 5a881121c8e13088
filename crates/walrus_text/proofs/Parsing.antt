-- Words as the parts of a section.
pub mod Indices
pub mod Entries
pub mod Lines
