-- Sections by index: where groups begin and end, and how a section is cut and rebuilt.
pub mod Lying
pub mod Rows
pub mod Rebuild
pub mod Places
pub mod Splits
pub mod Numbering
