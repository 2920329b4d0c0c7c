pub mod Drawing
pub mod Reading
pub mod Four
pub mod Bench
