mod TokenValues
mod RowFacts
mod ExprShapes
mod StmtShapes
mod MemberShapes
pub mod ContractShapes
mod TypeTexts
mod BodyTexts
pub mod TreeTexts
