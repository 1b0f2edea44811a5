pub mod Made
pub mod Constructing
pub mod Waited
pub mod Making
