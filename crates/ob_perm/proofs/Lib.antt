pub mod SetLemmas
pub mod MaskLemmas
pub mod NamingLemmas
pub mod FitLemmas
mod JoinLemmas
mod SaidLemmas
pub mod StandsLemmas
