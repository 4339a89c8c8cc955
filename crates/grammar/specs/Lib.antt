pub mod Character
pub mod Grammar
pub mod States
pub mod Reading
pub mod Fault
pub mod Typed
