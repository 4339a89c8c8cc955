mod Induction
pub mod Complete
mod Sound
mod Limits
pub mod Exact
mod Begins
pub mod Places
mod Typing
pub mod Shallow
mod Examples
