pub mod WalkLemmas
pub mod RowLemmas
pub mod StatementLemmas
pub mod BranchLemmas
