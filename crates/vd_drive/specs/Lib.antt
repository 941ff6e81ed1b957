pub mod Driving
pub mod Moves
pub mod Drivers
