pub mod Values
pub mod Lists
pub mod Board
pub mod Holding
pub mod Passes
