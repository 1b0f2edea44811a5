pub mod Starting
pub mod Committing
pub mod Standing
pub mod Seen
pub mod Readers
