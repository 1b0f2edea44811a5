pub mod Progress
pub mod ExpressionCode
pub mod StatementCode
pub mod BodyCode
pub mod Law
