-- The printed texts of types.
pub mod ReadBack
