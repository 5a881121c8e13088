pub mod UnusedTypes
pub mod IndexMaps
