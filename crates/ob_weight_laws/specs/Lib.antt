pub mod Bodies
pub mod Counting
pub mod Lines
pub mod Law
