pub mod Progress
pub mod Splits
pub mod Listings
pub mod Begins
pub mod Groupings
