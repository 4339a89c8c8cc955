pub mod Paths
pub mod Subplans
pub mod Operands
pub mod Ends
pub mod Counts
pub mod Appearances
