pub mod Measures
pub mod Readings
pub mod Only
