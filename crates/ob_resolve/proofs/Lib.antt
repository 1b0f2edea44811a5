pub mod NameTurns
pub mod MemberLemmas
pub mod ContractLemmas
pub mod ProgramLemmas
pub mod ResolvingLaws
