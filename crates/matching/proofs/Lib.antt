mod Same
mod Table
mod Stack
mod Fitting
mod Matching
mod Building
pub mod Sides
mod Rewriting
mod LawTables
mod Writing
pub mod Giving
