pub mod Options
pub mod Words
mod Entries
mod OperandTable
pub mod Reading
pub mod Place
pub mod Passing
pub mod Accepted
pub mod Put
pub mod Basic
pub mod Stack
mod Scanning
pub mod Orders
pub mod Start
pub mod Starts
pub mod Standing
