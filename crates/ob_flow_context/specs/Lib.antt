pub mod Checking
pub mod View
pub mod Small
pub mod Parameters
