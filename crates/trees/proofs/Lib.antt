pub mod Agreement
pub mod Depth
pub mod Branches
pub mod Operators
pub mod Congruence
pub mod Alike
pub mod Decision
mod Differences
pub mod Merge
pub mod Equations
