pub mod PassingOn
pub mod Walks
pub mod Collecting
