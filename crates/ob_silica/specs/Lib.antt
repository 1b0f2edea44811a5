pub mod Terms
pub mod Slots
pub mod TermsView
pub mod TermsBack
