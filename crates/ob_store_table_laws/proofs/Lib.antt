pub mod Unnamed
pub mod Failing
pub mod Following
pub mod Whole
