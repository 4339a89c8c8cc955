pub mod Spans
pub mod Stays
pub mod Closing
pub mod Steps
pub mod Products
pub mod Ended
pub mod Outcomes
pub mod Claims
mod Examples
