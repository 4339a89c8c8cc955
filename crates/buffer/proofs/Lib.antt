pub mod Whole
mod NextWord
