pub mod Ways
pub mod OneOwner
pub mod Owner
pub mod Counting
pub mod Changing
