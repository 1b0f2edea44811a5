pub mod ListLoops
pub mod RowLoops
pub mod PassLoops
pub mod ImageLoops
pub mod PlaceLemmas
pub mod SurveyLoops
pub mod SlotLoops
pub mod KnownLoops
