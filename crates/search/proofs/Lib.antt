pub mod Found
pub mod Matches
pub mod Places
pub mod Bounds
pub mod Only
