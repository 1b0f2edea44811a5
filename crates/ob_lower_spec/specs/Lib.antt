pub mod Forms
pub mod Points
pub mod ExpressionTerms
pub mod GivenTerms
pub mod StatementTerms
pub mod BodyTerms
pub mod SlotNeeds
