pub mod Core
pub mod FlushSteps
pub mod Keeping
pub mod PassSteps
pub mod Primitives
pub mod States
