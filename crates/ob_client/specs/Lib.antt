pub mod RequestLines
pub mod Sendable
pub mod Exact
pub mod Trials
pub mod TrialView
pub mod Told
pub mod Reordered
pub mod ReplyReading
