pub mod Law
pub mod Bodies
