pub mod Adapters
pub mod Calls
pub mod Disks
pub mod Ranges
pub mod Taking
