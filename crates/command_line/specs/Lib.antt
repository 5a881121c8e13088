pub mod Arguments
pub mod Inputs
pub mod Outputs
pub mod About
