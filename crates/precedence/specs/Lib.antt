pub mod Overtaking
pub mod Outcome
pub mod Claims
pub mod Pass
