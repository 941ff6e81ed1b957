pub mod Masks
pub mod Marks
pub mod Rows
pub mod Blocks
pub mod Summaries
pub mod Searches
pub mod BitFields
