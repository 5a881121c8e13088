-- A section is read into classes of equal groups.
pub mod RenamedKeys
pub mod ClassKeys
pub mod ToldGroups
pub mod NewKeys
pub mod ReadGroups
pub mod SkippedGroups
pub mod NeededGroups
pub mod Containing
pub mod ClassRecords
pub mod ReadSections
