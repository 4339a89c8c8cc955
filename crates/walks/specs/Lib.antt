pub mod Progress
pub mod Pass
pub mod Outcome
pub mod Reached
pub mod Claims
pub mod Turns
