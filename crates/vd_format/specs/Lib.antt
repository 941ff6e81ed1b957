pub mod Numbers
pub mod Layouts
pub mod Headers
pub mod Entries
pub mod Records
pub mod Background
pub mod SlotReading
