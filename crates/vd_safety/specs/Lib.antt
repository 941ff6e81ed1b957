pub mod Mirrors
pub mod Held
pub mod Safely
