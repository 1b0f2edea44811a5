pub mod Running
pub mod Requests
pub mod Sound
pub mod places
pub mod frames
pub mod changes
pub mod calls
pub mod beginning
