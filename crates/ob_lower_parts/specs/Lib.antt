pub mod Makes
pub mod Visible
pub mod Operands
