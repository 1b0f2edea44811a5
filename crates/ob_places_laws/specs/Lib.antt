pub mod Serving
pub mod Answering
pub mod Agreeing
pub mod Passing
