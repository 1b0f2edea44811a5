pub mod Nodes
pub mod Linking
pub mod Walking
pub mod Placing
pub mod Counting
pub mod Seen
