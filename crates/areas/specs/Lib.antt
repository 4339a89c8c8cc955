pub mod Area
pub mod Reached
pub mod Storing
