pub mod NamesLemmas
pub mod NumberedLemmas
pub mod TypesLemmas
pub mod MembersLemmas
pub mod ScopeLemmas
pub mod BuildLemmas
pub mod OnceTurns
