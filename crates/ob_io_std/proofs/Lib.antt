pub mod CallLemmas
pub mod TakingLemmas
pub mod Untold
