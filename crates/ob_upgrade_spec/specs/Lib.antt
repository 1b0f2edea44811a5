pub mod Matching
pub mod Upgraded
