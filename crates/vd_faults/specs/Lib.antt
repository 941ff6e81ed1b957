pub mod Rules
pub mod Tapes
pub mod TapeFields
pub mod Traced
pub mod Versions
pub mod Steps
pub mod Choices
