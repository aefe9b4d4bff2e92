pub mod Progress
pub mod Parts
pub mod Starts
pub mod Ready
pub mod Grouped
