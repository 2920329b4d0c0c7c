pub mod Kinds
pub mod Run
pub mod Loop
pub mod Example
pub mod Found
