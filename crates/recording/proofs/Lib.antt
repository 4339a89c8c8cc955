mod Runs
mod Stepping
