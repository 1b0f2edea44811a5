pub mod Noted
pub mod Undoing
pub mod Kept
pub mod Named
