pub mod BySource
pub mod Bounds
pub mod Disks
pub mod Sure
