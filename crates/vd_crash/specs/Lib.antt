pub mod facts
pub mod flushes
pub mod primitives
