pub mod Text
pub mod Listing
pub mod Endings
pub mod Ended
pub mod Writing
pub mod Written
