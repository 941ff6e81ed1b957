pub mod Keeping
pub mod Entries
pub mod Flushes
pub mod Moves
pub mod Sets
pub mod SetFields
pub mod KeeperFields
pub mod Putting
