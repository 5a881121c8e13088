-- The derived orders of values, records and types are total, and their ties are the same.
pub mod Values
pub mod Records
pub mod Types
pub mod Ties
