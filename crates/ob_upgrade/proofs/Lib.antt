pub mod Pairs
pub mod Naming
pub mod Renaming
pub mod Verdicts
