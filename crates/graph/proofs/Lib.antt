pub mod Terms
pub mod Growing
pub mod Reading
mod Writing
pub mod Parts
