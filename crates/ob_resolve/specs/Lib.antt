pub mod Transactions
pub mod Resolving
