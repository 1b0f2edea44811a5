pub mod TermsLost
