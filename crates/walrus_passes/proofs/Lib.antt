pub mod Calling
pub mod Conversions
pub mod NewLocals
pub mod UsedTypes
pub mod Mapping
pub mod ChangedCalls
