pub mod Putting
pub mod Bodies
pub mod Ending
pub mod Reading
pub mod Standing
pub mod Pausing
pub mod Going
pub mod Laws
