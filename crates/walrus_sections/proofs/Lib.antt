pub mod Sections
pub mod NormalForms
pub mod Emission
pub mod Ordering
pub mod FirstError
pub mod Moves
pub mod Reading
