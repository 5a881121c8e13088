-- The first error of a section that cannot be read.
pub mod Laws
pub mod Search
