pub mod Opens
pub mod Appends
pub mod Headers
pub mod Walks
pub mod AreaHeads
pub mod Finds
pub mod Moves
mod Drafts
