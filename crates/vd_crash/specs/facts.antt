pub mod CrashSafe
pub mod Facts
pub mod Memory
pub mod Metadata
pub mod Opened
pub mod Safe
pub mod Words
