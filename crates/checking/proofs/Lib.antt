pub mod Fitting
pub mod Accepting
pub mod Good
mod Judging
mod Turning
mod Settling
