pub mod Making
mod Putting
pub mod Seeking
mod Answering
mod Trying
mod Backing
pub mod Loading
