pub mod Log
pub mod Image
pub mod Layouts
pub mod Refusals
pub mod Decoders
pub mod Openings
pub mod CrashImages
pub mod Made
