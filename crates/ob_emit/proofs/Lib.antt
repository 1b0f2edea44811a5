pub mod CodeLemmas
pub mod TermsLemmas
pub mod ScratchLemmas
pub mod BodiesLemmas
pub mod Placed
pub mod WeightLemmas
pub mod ImagesLemmas
