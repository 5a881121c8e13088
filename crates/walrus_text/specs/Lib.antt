pub mod Words
pub mod Spacing
pub mod Text
pub mod Errors
pub mod Steps
