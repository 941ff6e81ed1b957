pub mod FlushRecording
pub mod FlushingReady
pub mod Laws
pub mod Marks
pub mod Recording
