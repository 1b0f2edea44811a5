pub mod Places
pub mod Known
pub mod Converting
pub mod Parameters
