pub mod Emitted
pub mod SoundCode
