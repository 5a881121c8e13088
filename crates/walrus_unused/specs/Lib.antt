pub mod NeededTypes
pub mod AllIndices
pub mod IndexMaps
pub mod Steps
