pub mod CodeStatements
pub mod Parts
pub mod Parsing
