pub mod CombinatorLaws
pub mod NumberLaws
pub mod KindLaws
pub mod TextLaws
pub mod RangeLaws
pub mod Failing
pub mod IdLaws
