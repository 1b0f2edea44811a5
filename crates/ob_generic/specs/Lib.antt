pub mod Instantiating
