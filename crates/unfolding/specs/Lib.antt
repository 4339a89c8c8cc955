pub mod Unfolding
pub mod Made
