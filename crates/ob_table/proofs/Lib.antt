pub mod ExpressionsLost
pub mod StatementsLost
