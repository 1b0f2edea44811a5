pub mod CodeStatements
pub mod CodeParts
pub mod CodeMembers
pub mod Whole
