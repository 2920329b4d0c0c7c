pub mod Wide
pub mod Alphabets
pub mod Rules
pub mod Good
pub mod FullAscii
pub mod Only
