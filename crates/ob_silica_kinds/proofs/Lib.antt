pub mod KindsLemmas
pub mod HeldLemmas
pub mod TermsLemmas
pub mod LeavingLemmas
pub mod AskingLemmas
