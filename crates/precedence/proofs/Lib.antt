mod Least
mod Sweeping
mod Turning
mod Outcomes
pub mod Claims
mod Examples
