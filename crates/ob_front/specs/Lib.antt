pub mod Stages
pub mod Programs
pub mod Compiled
pub mod Lowered
pub mod Checked
