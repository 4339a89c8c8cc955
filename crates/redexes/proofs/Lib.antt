pub mod Entries
mod BuildingAt
mod Operands
mod Letters
mod OneOperand
mod TwoOperands
mod Redexes
mod Roots
