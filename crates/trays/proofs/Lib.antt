mod Ground
mod Meaning
mod Unfolding
mod Backwards
mod Printed
mod Allowances
