pub mod Blocks
pub mod Kinds
