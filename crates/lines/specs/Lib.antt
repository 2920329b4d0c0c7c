pub mod Sizes
pub mod Text
pub mod Line
pub mod Wrote
