pub mod Shown
pub mod Changes
pub mod Beginning
pub mod Calls
pub mod Phases
pub mod Slicing
pub mod Stretching
pub mod Unread
