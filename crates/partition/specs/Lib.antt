pub mod Perm
pub mod Stretches
pub mod Cuts
pub mod Starts
pub mod View
pub mod Kinds
pub mod Cells
