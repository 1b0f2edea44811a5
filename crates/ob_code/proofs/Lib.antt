pub mod InstructionLaws
pub mod ImageLaws
pub mod DecodingLemmas
pub mod Spellings
