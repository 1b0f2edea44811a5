pub mod Stores
pub mod Unchanged
pub mod Opening
pub mod Writing
pub mod Preparing
pub mod Committing
pub mod Reading
