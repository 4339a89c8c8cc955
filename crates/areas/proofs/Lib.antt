pub mod Area
pub mod Storing
