pub mod Origins
pub mod Refusals
pub mod System
pub mod Numbering
pub mod Folding
pub mod Shape
pub mod Charts
