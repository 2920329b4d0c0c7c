pub mod Sums
pub mod Only
