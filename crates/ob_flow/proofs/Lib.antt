pub mod FormsLemmas
pub mod StateLemmas
pub mod CallLemmas
pub mod OutcomeLemmas
pub mod TermLemmas
pub mod BodyLemmas
pub mod LoopLemmas
