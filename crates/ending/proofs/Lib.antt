mod Parts
mod Signs
pub mod Ending
pub mod Steps
