pub mod Digits
pub mod Putting
pub mod Narrow
pub mod Fits
pub mod Texts
pub mod Only
