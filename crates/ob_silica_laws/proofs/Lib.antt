pub mod Keeping
pub mod StepsKeep
pub mod Counting
pub mod Parts
pub mod Lasting
