pub mod Turns
pub mod MakingLaws
