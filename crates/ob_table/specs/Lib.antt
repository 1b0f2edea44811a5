pub mod Expressions
pub mod ExpressionsView
pub mod ExpressionsBack
pub mod Statements
pub mod StatementsView
pub mod StatementsBack
pub mod Tables
