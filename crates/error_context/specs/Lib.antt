pub mod Lookalikes
pub mod ShownNames
pub mod Proposals
pub mod Contexts
