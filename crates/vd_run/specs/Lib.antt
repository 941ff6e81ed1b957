pub mod Serving
pub mod Driving
pub mod Orders
pub mod Reopening
pub mod Running
