pub mod Copies
pub mod JoinContents
pub mod JoinLaws
pub mod JoinLegal
pub mod JoinSteps
pub mod Sent
pub mod Storing
