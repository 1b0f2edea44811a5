pub mod Modes
pub mod References
pub mod Incoming
pub mod Failing
pub mod AtRest
