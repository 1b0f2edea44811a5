pub mod Lists
pub mod Fields
pub mod Handles
pub mod Ending
