pub mod Answers
pub mod Reading
pub mod Right
pub mod Made
mod Making
mod Examples
