pub mod CallStates
pub mod ContentStates
