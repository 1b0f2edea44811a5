pub mod ReadingLemmas
pub mod RequestLaws
pub mod IncomingLaws
pub mod ReplyTexts
