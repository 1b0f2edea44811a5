pub mod Names
pub mod Numbers
pub mod Faults
pub mod Optional
pub mod Bytes
pub mod Fields
pub mod TextErrors
pub mod Limits
