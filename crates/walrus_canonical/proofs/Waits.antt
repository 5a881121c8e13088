-- Which classes wait for which slots.
pub mod ClassWaits
pub mod OpenWaits
