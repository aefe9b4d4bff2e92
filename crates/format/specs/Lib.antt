pub mod Walk
pub mod Encode
pub mod Answers
pub mod Steps
