pub mod Slots
pub mod Redexes
