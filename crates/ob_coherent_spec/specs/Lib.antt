pub mod Counting
pub mod Runs
pub mod Standing
pub mod Saying
pub mod Remaining
pub mod OpenTests
pub mod Waiting
pub mod Coherent
