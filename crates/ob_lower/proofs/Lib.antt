pub mod BodiesLemmas
pub mod ExpressionsLemmas
pub mod KeptLemmas
