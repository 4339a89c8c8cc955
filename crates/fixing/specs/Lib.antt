pub mod Gathered
pub mod Outcome
pub mod Claims
