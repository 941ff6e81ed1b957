pub mod Steps
pub mod Entries
pub mod Seated
pub mod Calls
pub mod Cuts
pub mod Ends
pub mod Numbered
