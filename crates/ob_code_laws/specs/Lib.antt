pub mod Kinds
pub mod Premises
pub mod Keeping
pub mod Stepping
pub mod Leading
