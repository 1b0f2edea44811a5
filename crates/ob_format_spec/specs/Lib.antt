pub mod Formats
pub mod Combinators
pub mod Texts
pub mod Ids
pub mod Ranges
pub mod Lawful
