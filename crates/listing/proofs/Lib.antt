mod Decimal
mod Writing
mod Lengths
mod Turns
mod Ending
mod Unfolds
mod Files
mod Endings
pub mod Outcome
