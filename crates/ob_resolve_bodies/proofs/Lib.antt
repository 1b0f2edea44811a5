pub mod NumbersLemmas
pub mod StatesLemmas
pub mod ResolvedLemmas
pub mod ScopeLemmas
pub mod BranchLemmas
