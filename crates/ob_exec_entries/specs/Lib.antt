pub mod Arguments
pub mod Entering
pub mod Later
pub mod Naming
pub mod Numbered
pub mod Targets
