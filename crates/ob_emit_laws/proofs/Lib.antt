pub mod Tables
pub mod Unnamed
pub mod Entries
pub mod Invoking
pub mod Ahead
