pub mod Bytes
pub mod Only
