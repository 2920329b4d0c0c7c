pub mod Marks
pub mod Choosing
pub mod Parts
pub mod Built
pub mod Drawn
pub mod Only
