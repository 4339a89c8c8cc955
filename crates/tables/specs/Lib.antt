pub mod Search
pub mod Tables
pub mod Judging
pub mod Lawful
