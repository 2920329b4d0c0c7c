pub mod Spellings
pub mod Returns
pub mod Only
