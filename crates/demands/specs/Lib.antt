pub mod Reports
pub mod Allowance
pub mod Former
pub mod Reversed
pub mod Claims
