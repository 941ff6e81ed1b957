pub mod Blocks
pub mod Flushing
pub mod Moves
pub mod Passes
pub mod Stage
