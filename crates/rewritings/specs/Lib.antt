pub mod Moves
pub mod Records
pub mod Reading
pub mod Choice
pub mod Roots
pub mod Runs
