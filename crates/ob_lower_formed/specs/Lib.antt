pub mod Law
pub mod NamesStates
