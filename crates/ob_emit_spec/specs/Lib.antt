pub mod Operands
pub mod Emission
pub mod EmittedImages
pub mod Weights
