pub mod Bound
pub mod Entered
pub mod Binds
pub mod Lending
