pub mod Resolved
pub mod States
