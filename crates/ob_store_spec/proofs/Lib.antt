pub mod Single
pub mod Sayings
pub mod PayloadLaws
pub mod Leading
pub mod Refusing
