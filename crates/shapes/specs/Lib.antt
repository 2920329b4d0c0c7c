pub mod Sets
pub mod Searched
pub mod Described
