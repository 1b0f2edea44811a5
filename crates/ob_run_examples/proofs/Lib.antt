pub mod Lexing
pub mod Testing
pub mod Sampled
pub mod Answered
pub mod Stored
