pub mod Numbered
pub mod Types
pub mod Members
pub mod Once
pub mod Around
pub mod Params
