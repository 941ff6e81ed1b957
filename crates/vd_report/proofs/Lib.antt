pub mod Counting
pub mod Guests
pub mod Pieces
pub mod Ranges
pub mod Same
pub mod Telling
pub mod WritingLaws
