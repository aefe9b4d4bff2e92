pub mod Laid
pub mod Short
