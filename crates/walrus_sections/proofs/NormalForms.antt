-- The normal form: there is one, and its own normal form is itself. And three sections whose normal
-- forms are known.
pub mod Kept
pub mod Agree
pub mod Images
pub mod One
pub mod SameMap
pub mod Fewer
pub mod Again
pub mod Twice
pub mod WorkedSections
