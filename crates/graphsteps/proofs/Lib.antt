pub mod Entries
pub mod Redexes
pub mod Terms
pub mod Signs
pub mod Steps
pub mod Outcomes
