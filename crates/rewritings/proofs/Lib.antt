pub mod Moves
pub mod Cutting
pub mod Reading
pub mod Bytes
mod Numbers
pub mod Runs
pub mod Finding
pub mod Choosing
pub mod Prefixes
pub mod Quiet
