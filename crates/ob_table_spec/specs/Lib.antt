pub mod Names
pub mod Conditions
pub mod WellFormed
