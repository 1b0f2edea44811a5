pub mod BySource
pub mod Longest
pub mod Bounds
pub mod Deciding
pub mod Stored
pub mod Disks
pub mod Sure
