pub mod Emission
pub mod Tables
pub mod Reading
pub mod EntryCounts
