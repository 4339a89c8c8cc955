pub mod Buffer
pub mod Moves
