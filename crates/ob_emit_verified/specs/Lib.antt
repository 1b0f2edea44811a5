pub mod Premises
pub mod Law
