pub mod Unplaced
pub mod Again
