mod Perms
mod Gathers
mod Slacks
mod Cuttings
mod Divides
mod Orders
mod Rows
mod Sorts
pub mod Facts
