pub mod Laws
mod One
mod Both
mod Mapped
mod Either
mod Maybe
mod Opened
pub mod Spanned
mod Symbols
pub mod Searches
mod TokenRows
mod RowLaws
mod Each
pub mod Lists
pub mod NameLaws
pub mod Chains
mod Operators
pub mod ExprLaws
mod Unary
pub mod Groups
pub mod Arguments
mod PrimaryLaws
mod Literals
pub mod DepthLaws
pub mod ParamLaws
pub mod FieldLaws
mod HeadLaws
mod StateLaws
mod TransactionLaws
pub mod MemberLaws
mod GenericLaws
pub mod ContractLaws
mod AheadLaws
mod AssignLaws
mod ValueLaws
pub mod GivenLaws
mod CallLaws
mod NamedStmts
mod SimpleLaws
mod QuestionLaws
mod IfLaws
mod WhileLaws
pub mod BlockLaws
pub mod ProgramLaws
pub mod Outcomes
mod OneFault
pub mod ParserLaws
mod Same
pub mod Deeper
