pub mod Names
pub mod Items
