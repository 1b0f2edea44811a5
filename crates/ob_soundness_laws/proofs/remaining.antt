pub mod Joins
pub mod Knowing
pub mod Remaining
pub mod Branches
pub mod Alike
pub mod Looping
pub mod Following
pub mod Programs
