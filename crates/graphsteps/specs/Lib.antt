pub mod Holding
pub mod Stopping
