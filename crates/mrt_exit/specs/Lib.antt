pub mod AnswerSteps
pub mod Due
pub mod Exits
pub mod Faults
pub mod Telling
pub mod steps
