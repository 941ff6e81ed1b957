pub mod Links
pub mod Hindrances
pub mod RunLaws
pub mod Sent
