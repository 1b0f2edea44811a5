pub mod Held
pub mod Locality
pub mod Runs
pub mod Slices
pub mod LocalityLaws
pub mod Laws
pub mod Pauses
