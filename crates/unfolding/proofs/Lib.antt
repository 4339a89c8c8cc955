mod Running
mod Settling
