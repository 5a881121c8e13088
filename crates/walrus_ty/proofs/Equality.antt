-- `==` of records, of types and of values is sameness.
pub mod Contents
pub mod Records
pub mod Types
pub mod Values
