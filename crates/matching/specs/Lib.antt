pub mod Start
pub mod Left
pub mod Check
pub mod Right
pub mod Tried
