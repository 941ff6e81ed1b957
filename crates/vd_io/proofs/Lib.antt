pub mod Composing
pub mod Windows
