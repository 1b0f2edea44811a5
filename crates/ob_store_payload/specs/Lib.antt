pub mod Answering
pub mod Conditions
pub mod Errors
pub mod Rows
pub mod Values
pub mod Whole
pub mod Writing
