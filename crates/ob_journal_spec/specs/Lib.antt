pub mod Spellings
pub mod Areas
pub mod Heads
pub mod Lasting
pub mod Disks
pub mod Building
pub mod Differing
