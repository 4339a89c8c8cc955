mod Judging
mod Parity
mod Rewriting
