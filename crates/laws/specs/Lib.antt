pub mod Laws
pub mod Step
pub mod Postfix
pub mod Fits
