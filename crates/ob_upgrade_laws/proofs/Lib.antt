pub mod Kept
pub mod Referring
pub mod Failing
pub mod Storing
pub mod Mismatching
pub mod Itself
