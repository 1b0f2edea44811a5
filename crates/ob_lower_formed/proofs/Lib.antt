mod Sets
mod Ways
mod Effects
mod Operands
mod Expressions
mod Points
mod Setting
mod Ending
mod Turning
mod Staging
mod Statements
mod Bodies
pub mod Law
pub mod NamedTerms
pub mod NamedStatements
pub mod NamesStates
