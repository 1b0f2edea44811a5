pub mod Refusals
pub mod Requests
pub mod Reading
pub mod Replies
pub mod Meanings
pub mod Errors
