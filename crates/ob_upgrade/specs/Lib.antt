pub mod Comparing
pub mod Renaming
