pub mod Tree
pub mod Operators
pub mod Meaning
