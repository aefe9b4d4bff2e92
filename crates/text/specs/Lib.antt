pub mod Buffer
pub mod Report
