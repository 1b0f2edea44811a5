pub mod Forms
pub mod Changes
pub mod Outcomes
pub mod Loops
