pub mod Code
pub mod Instructions
pub mod Images
pub mod Decoding
