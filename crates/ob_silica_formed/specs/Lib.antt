pub mod Holdings
pub mod Points
pub mod WellFormedTerms
