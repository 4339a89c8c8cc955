mod Searching
mod Passing
pub mod Lawful
pub mod Actions
