-- What a text was written of: reading it back gives the groups, so one text is of one section.
pub mod Decimals
pub mod ReadBack
pub mod Uniqueness
pub mod Written
