mod Rules
mod Storing
mod Next
mod Beginnings
mod Endings
mod Reaching
pub mod Outcomes
pub mod Claims
mod Examples
