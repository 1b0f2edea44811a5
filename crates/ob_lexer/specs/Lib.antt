pub mod Spelling
pub mod Lexis
pub mod Flaws
pub mod Lexing
pub mod Reading
pub mod Spans
