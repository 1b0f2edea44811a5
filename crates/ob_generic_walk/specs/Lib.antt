pub mod Noted
pub mod HeadNotes
pub mod Seen
pub mod Stages
