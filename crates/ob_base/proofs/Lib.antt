pub mod Utf8
pub mod OptionalLemmas
pub mod FieldsLemmas
