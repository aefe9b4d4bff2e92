mod Walks
pub mod Labels
