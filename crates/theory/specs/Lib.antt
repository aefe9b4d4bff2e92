pub mod Rounds
pub mod Record
pub mod Theorems
pub mod Worked
