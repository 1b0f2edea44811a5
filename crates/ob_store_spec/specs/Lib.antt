pub mod Payloads
pub mod Changes
pub mod Stores
pub mod Between
pub mod Settling
