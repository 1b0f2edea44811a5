pub mod NameTokens
pub mod ExprTokens
pub mod StmtTokens
pub mod MemberTokens
pub mod Layout
pub mod Written
