pub mod FormsLemmas
pub mod GivenLemmas
pub mod JoinLemmas
pub mod StateLemmas
pub mod ParamLemmas
pub mod LoopLemmas
