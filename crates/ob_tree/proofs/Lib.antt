pub mod BackLemmas
pub mod NamesBack
pub mod ExprsBack
pub mod StmtsBack
pub mod MembersBack
