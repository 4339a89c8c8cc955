mod Joined
pub mod File
mod Back
mod Positions
pub mod Outcomes
pub mod Claims
mod Turns
mod Examples
