pub mod StoreState
pub mod Flying
pub mod Sound
pub mod StoreFields
pub mod Ends
pub mod BaseState
pub mod BaseFields
pub mod Devices
