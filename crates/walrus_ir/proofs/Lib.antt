pub mod Calls
pub mod Reported
