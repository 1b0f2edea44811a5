pub mod Emitted
pub mod Marks
pub mod Meanings
pub mod Running
pub mod Sound
pub mod Naming
pub mod Whole
