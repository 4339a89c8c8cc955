pub mod Files
pub mod Forms
mod Gathering
pub mod Reading
pub mod Examples
