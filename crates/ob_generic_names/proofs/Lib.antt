pub mod HeadsLemmas
pub mod BoundsLemmas
pub mod Turns
