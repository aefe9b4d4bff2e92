pub mod Figure
pub mod Weighers
pub mod Loads
pub mod Laws
pub mod Gathers
