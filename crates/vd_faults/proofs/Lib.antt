pub mod Choosing
pub mod Origins
pub mod Counting
pub mod Laying
pub mod Choice
