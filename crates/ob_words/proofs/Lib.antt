mod NumberLemmas
mod RefusalLemmas
mod RowLemmas
mod WalkLemmas
mod PartLemmas
pub mod WrittenLemmas
mod FurtherLemmas
