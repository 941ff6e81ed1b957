pub mod Outcomes
pub mod Kept
pub mod Opening
pub mod Agreeing
pub mod Showing
pub mod History
