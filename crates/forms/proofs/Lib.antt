pub mod Order
pub mod Sorted
pub mod Kept
pub mod Same
pub mod InForm
pub mod Members
pub mod Sorting
pub mod Keys
pub mod Gathering
pub mod Claims
mod Examples
