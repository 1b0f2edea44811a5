pub mod Marks
pub mod Contracts
