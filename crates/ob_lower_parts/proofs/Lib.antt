pub mod CodeLemmas
pub mod DropsLemmas
pub mod SlotsLemmas
pub mod CountsLemmas
pub mod VariablesLemmas
