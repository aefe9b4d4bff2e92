pub mod Numbered
pub mod Earliest
