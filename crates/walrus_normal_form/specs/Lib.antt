pub mod SortKeys
pub mod Steps
