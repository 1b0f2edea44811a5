pub mod Forms
pub mod Calls
pub mod Changes
pub mod Joins
pub mod Loops
