pub mod Codes
pub mod ShownNames
pub mod Lookalikes
