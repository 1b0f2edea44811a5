pub mod This
pub mod Calling
