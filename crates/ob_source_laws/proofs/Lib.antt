pub mod Follows
pub mod Alike
pub mod Marking
pub mod ExpressionParts
pub mod StatementParts
pub mod CallParts
pub mod Turns
pub mod EachPart
