pub mod Form
pub mod InForm
pub mod Sorting
pub mod Gathering
