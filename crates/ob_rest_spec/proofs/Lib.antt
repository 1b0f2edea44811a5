pub mod FirstFailing
