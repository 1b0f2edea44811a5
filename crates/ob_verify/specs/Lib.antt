pub mod Bodies
pub mod Names
pub mod Answering
pub mod Named
pub mod Surveys
pub mod Slots
pub mod Changing
