pub mod Mapped
pub mod Turns
pub mod Units
pub mod Rows
pub mod Parts
pub mod Characters
pub mod Seeing
pub mod Only
