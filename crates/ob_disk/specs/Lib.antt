pub mod Calls
pub mod Memory
pub mod Notes
pub mod Plans
pub mod Sure
