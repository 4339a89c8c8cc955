mod Covering
mod Taken
mod Written
mod Turning
mod Outcomes
mod Walked
mod Deciding
pub mod Claims
mod Examples
