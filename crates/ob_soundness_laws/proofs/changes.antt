pub mod Filling
pub mod FillingAll
pub mod Owning
pub mod Changed
pub mod Changing
