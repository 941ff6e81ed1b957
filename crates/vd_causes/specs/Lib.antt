pub mod Wearing
pub mod Storing
pub mod Local
pub mod Accounts
