pub mod Answering
pub mod ExprAnswers
pub mod Levels
pub mod Places
