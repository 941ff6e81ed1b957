pub mod FlushSteps
pub mod Untouched
pub mod Moving
pub mod Serving
pub mod Made
pub mod Driven
pub mod Answering
