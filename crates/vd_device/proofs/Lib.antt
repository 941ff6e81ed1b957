pub mod Flights
pub mod Keeping
pub mod Logs
pub mod Stopping
pub mod QuietLaws
pub mod Parts
pub mod DeviceLaws
