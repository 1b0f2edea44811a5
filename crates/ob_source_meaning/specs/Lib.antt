pub mod Frames
pub mod Naming
pub mod Expressions
pub mod Fields
pub mod StateTests
pub mod Statements
pub mod Bodies
pub mod Calls
