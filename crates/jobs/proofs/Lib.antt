pub mod Bodies
pub mod Numbers
pub mod Runs
pub mod Pieces
pub mod Promise
pub mod Only
pub mod Example
