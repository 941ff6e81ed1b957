pub mod Lists
pub mod Places
pub mod Changes
pub mod Elements
pub mod Counting
pub mod Options
pub mod Numbers
