pub mod Paths
pub mod Comparing
pub mod Sorting
pub mod Linking
pub mod Tied
