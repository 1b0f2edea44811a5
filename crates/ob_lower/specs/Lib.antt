pub mod Beginning
pub mod Lowering
pub mod Parts
pub mod Plain
pub mod Waits
