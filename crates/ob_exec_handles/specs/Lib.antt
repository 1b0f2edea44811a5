pub mod Coming
pub mod Parts
pub mod Marking
pub mod Putting
pub mod Giving
pub mod Spending
