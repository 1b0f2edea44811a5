pub mod States
pub mod Permissions
pub mod Naming
pub mod Masks
