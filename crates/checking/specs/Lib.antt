pub mod Checking
pub mod Turns
