pub mod TestedLemmas
pub mod KnownLemmas
pub mod NamingLemmas
pub mod FrameLemmas
pub mod BeginningLemmas
pub mod PremiseLemmas
pub mod OnceLemmas
pub mod ListLemmas
