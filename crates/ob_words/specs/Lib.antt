pub mod CommandLine
pub mod Settings
pub mod Asked
pub mod AskedView
pub mod Further
pub mod FurtherView
pub mod Written
pub mod Worked
